-- Ops: their table, names, roles, and what each computes.
pub mod OpFacts
pub mod Ops
pub mod AllOps
pub mod OpKinds
pub mod OpNames
pub mod OpPlaces
pub mod Roles
pub mod Access
pub mod Arithmetic
pub mod Widths
pub mod Conditions
pub mod Evaluation
-- Units and functions: names, look-ups, classes, limits, and well-formed ones.
pub mod Names
pub mod Lookups
pub mod Edges
pub mod Classes
pub mod Limits
pub mod WellFormed
pub mod ArgumentPlaces
pub mod Texts
-- Facts over paths and within a block: what is passed, defined, waited for, and which memory is there.
pub mod Paths
pub mod Definedness
pub mod Cycles
pub mod FirstOrder
pub mod MemoryChains
pub mod MemoryPaths
-- Runs: inputs, steps, what is shown, laws, and a worked example.
pub mod Inputs
pub mod Phis
pub mod Calls
pub mod Run
pub mod RunLaws
pub mod Showing
pub mod BoundsChecked
pub mod BoundsCheckedRuns
