-- The outside, and texts that are appended.
mod WholeLemmas
pub mod PrefixLemmas
-- Words and memory.
pub mod MemoryLemmas
pub mod WordLemmas
-- Lists.
pub mod ListPieces
pub mod ListPlaces
pub mod ListStanding
pub mod VectorLists
-- Rows of bits.
pub mod BitRowLemmas
pub mod BitWordLemmas
