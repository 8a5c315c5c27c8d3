-- The outside: sources and sinks, their faults, whole reads and writes, adapters.
pub mod Faults
pub mod Whole
pub mod MemStreams
pub mod StdStreams
-- Texts that are appended.
pub mod Texts
pub mod Prefixes
-- Words, memory, lists, and rows of bits.
pub mod Words
pub mod Memory
pub mod MemoryLaws
pub mod Lists
pub mod BitRows
pub mod BitWords
