-- Definedness and orders.
pub mod DefinedLemmas
pub mod FirstOrderLemmas
pub mod FirstOrderWhole
pub mod CircleLemmas
-- Memory.
pub mod MemoryLawLemmas
pub mod PassedMemory
pub mod LastDefinerBlocks
pub mod LastDefinerLemmas
