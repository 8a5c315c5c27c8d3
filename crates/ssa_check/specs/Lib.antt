-- What each check asks.
pub mod BlockChecks
pub mod ValueChecks
pub mod OpTypes
pub mod CalleeCheck
-- Which places fail, the first of them, and the names of checks.
pub mod Failing
pub mod CheckNames
-- What private contracts cite.
pub mod tables
