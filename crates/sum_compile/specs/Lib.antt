pub mod Narrow
pub mod NarrowTest
pub mod Plain
pub mod Row
pub mod tables
