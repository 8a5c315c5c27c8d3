pub mod Graphs
pub mod Loops
pub mod Paths
pub mod Ranks
pub mod Searches
