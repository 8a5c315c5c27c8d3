-- Lists of nodes.
pub mod AmongLemmas
pub mod AnyLemmas
-- Graphs, paths, searches and ranks.
pub mod GraphLemmas
pub mod PathLemmas
pub mod ReachLemmas
pub mod SearchLemmas
pub mod RankLemmas
pub mod LoopLemmas
