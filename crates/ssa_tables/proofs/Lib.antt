pub mod BlockLemmas
pub mod BlockTableLemmas
pub mod FlowLemmas
pub mod PassedLemmas
pub mod SignatureLemmas
pub mod ValueTableLemmas
