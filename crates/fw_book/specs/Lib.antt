-- Public vocabulary: the words of public clauses, for callers and readers.
pub mod Rows
pub mod Contents
pub mod Changes
pub mod Format
pub mod Notes
pub mod Laws
-- For private clauses alone: no public clause cites it.
pub mod Private
