-- The answer of the program: words, outcomes, lines and causes.
pub mod Words
pub mod Status
pub mod Answer
pub mod Causes
pub mod Refused
pub mod Worlds
pub mod Unmade
-- What each command writes.
pub mod Outputs
pub mod Compiled
pub mod ShownText
pub mod CaseText
-- Lines of the error stream.
pub mod RefusalText
pub mod CheckText
-- What private contracts cite.
pub mod tables
