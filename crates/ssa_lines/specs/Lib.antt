-- Lines, words, numbers and types.
pub mod Lines
pub mod Words
pub mod Numbers
pub mod NumberWords
pub mod Counts
pub mod Types
-- Forms of lines.
pub mod Forms
pub mod Headers
pub mod ValueForms
pub mod Steps
-- Refusals, limits and tables of names.
pub mod ReadsAs
pub mod Limits
pub mod Tables
