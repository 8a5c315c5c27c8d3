pub mod Judging
pub mod Report
