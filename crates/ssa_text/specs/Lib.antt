pub mod CaseSplit
pub mod ReadLaws
pub mod Reading
pub mod Text
pub mod UnitReading
pub mod tables
