-- The commands.
mod CompileLemmas
mod CompleteLemmas
mod TellingLemmas
-- The text of what is shown.
mod ShownPieceLemmas
mod ShownRunLemmas
mod ShownWordLemmas
mod SigTableLemmas
