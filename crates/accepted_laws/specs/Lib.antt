pub mod LastDefiner
pub mod MemoryLaws
pub mod PathLaws
