pub mod Apart
pub mod Items
pub mod LowestOnCycle
pub mod tables
