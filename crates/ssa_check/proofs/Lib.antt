-- The least place that fails, and the order of checks.
pub mod FunctionLemmas
pub mod LowestLemmas
pub mod PlaceLemmas
pub mod LeastPlaceLemmas
pub mod FirstPlaceLemmas
pub mod OrderLemmas
pub mod TableLemmas
-- Entry, edges, types, parameters and controls.
pub mod EntryLemmas
pub mod EdgeLemmas
pub mod EdgeOrderLemmas
pub mod EdgeCountLemmas
pub mod TypeLemmas
pub mod ParameterLemmas
pub mod ControlLemmas
-- Calls and their selects.
pub mod CalleeLemmas
pub mod CalleeBlockLemmas
pub mod CalleeSelectLemmas
-- Memory: chains, and what paths pass.
pub mod ChainLemmas
pub mod ChainWalkLemmas
pub mod MemoryLemmas
pub mod MemoryBlockLemmas
pub mod MemoryTableLemmas
pub mod MemorySweepLemmas
pub mod MemoryPathLemmas
-- Circles, and uses on paths.
pub mod CyclePlaces
pub mod FlowPaths
pub mod UndefinedLemmas
pub mod UndefinedPathLemmas
