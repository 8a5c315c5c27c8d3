pub mod DivisionLemmas
pub mod FlagLemmas
pub mod FlagNumbers
pub mod OpLawLemmas
pub mod OpLawResidues
