-- Tables of a run: words, memory, symbols, blocks.
pub mod WordLemmas
pub mod TableLemmas
pub mod MemoryLemmas
pub mod MemoryChangedLemmas
pub mod ChangeLemmas
pub mod LoadLemmas
pub mod SymbolLemmas
pub mod ReadyLemmas
pub mod ApartLemmas
-- Steps: values, items, turns.
pub mod RanLemmas
pub mod StepLemmas
pub mod StepItemLemmas
pub mod SelectLemmas
pub mod TurnLemmas
-- Laws of runs.
pub mod JunkLemmas
pub mod RepliesLemmas
