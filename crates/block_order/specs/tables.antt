pub mod Dependencies
pub mod ItemGraph
pub mod Placing
pub mod Selects
pub mod Waiting
