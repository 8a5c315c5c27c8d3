pub mod RunLengths
pub mod SigTables
