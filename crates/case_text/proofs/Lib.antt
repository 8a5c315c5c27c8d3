-- Forms of lines, and reading them.
pub mod CaseFormLemmas
pub mod CaseFormFacts
pub mod CaseLineLemmas
pub mod CaseWordLemmas
pub mod FormBytesLemmas
pub mod FormWordsLemmas
pub mod NameLemmas
pub mod RowLemmas
pub mod LineCounts
-- The reader and its state.
pub mod CaseChanges
pub mod CaseSteps
pub mod CaseTests
pub mod CasesKept
pub mod CasesReadLemmas
pub mod CheckedLemmas
pub mod ReadLemmas
pub mod ReaderLemmas
pub mod CaseFacts
pub mod CaseFirstLine
pub mod WellFormedCases
-- Printing, and reading back.
pub mod CaseInputs
pub mod CaseLineTexts
pub mod CaseParts
pub mod CaseReplies
pub mod CaseRows
pub mod CaseRoundTrip
pub mod HexByteTexts
pub mod HexTexts
