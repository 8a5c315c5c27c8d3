pub mod CaseRun
pub mod RunLaws
pub mod tables
