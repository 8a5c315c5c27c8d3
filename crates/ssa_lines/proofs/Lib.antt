-- Bytes, words, numbers and types.
pub mod LineBytes
pub mod LineLemmas
pub mod WordLemmas
pub mod NumberLemmas
pub mod NumberFactsLemmas
pub mod TypeLemmas
pub mod ArgLemmas
-- Forms of lines.
pub mod FormLemmas
pub mod FormFacts
pub mod GrammarLemmas
pub mod HeaderLemmas
-- Printed words and numbers read back.
pub mod WordTexts
pub mod NumberTexts
pub mod IntegerTexts
-- Refusals, limits and tables.
pub mod RefusalLemmas
pub mod LimitLemmas
pub mod TableLemmas
