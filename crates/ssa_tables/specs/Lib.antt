pub mod Blocks
pub mod PassedRows
pub mod Places
pub mod SignatureTable
pub mod tables
