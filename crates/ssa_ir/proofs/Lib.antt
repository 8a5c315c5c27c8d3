pub mod LookupLemmas
pub mod OpNameLemmas
pub mod OpPlaceLemmas
pub mod OwnNames
pub mod RunLemmas
pub mod WellFormedLemmas
