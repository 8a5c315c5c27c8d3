pub mod Numbered
pub mod Parameters
pub mod Places
