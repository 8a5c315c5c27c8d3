-- Code, its frame and its text.
pub mod CodeFacts
pub mod Frame
pub mod Text
-- The machine, runs, and what it is to show the same.
pub mod Machine
pub mod ListingRun
pub mod SameShow
pub mod RunLaws
