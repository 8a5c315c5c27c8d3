-- The functions that are compiled, and the test of it.
pub mod NarrowLemmas
pub mod NarrowTestLemmas
pub mod PartTestLemmas
pub mod ValueTestLemmas
pub mod OnceLemmas
pub mod NumberedLemmas
-- They meet the checks.
pub mod NarrowAccepted
pub mod NarrowChecks
pub mod NarrowClasses
pub mod NarrowControls
pub mod NarrowCycles
pub mod NarrowDefined
pub mod NarrowInputs
pub mod NarrowMemory
-- The plain allocation, and its run.
pub mod ParameterLemmas
pub mod PlacedLemmas
pub mod CodeFactsLemmas
pub mod MachineLemmas
pub mod StraightLemmas
pub mod NarrowRun
pub mod SumsRun
pub mod PlainRun
pub mod RowRun
pub mod SpillFacts
