-- Public vocabulary: the words of public clauses, for callers and readers.
pub mod Questions
pub mod Answers
pub mod Rows
pub mod History
pub mod Survey
-- For private clauses alone: no public clause cites it.
pub mod Private
