pub mod CaseForms
pub mod CaseReading
pub mod CaseText
