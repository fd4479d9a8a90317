-- Public vocabulary: the words of public clauses, for callers and readers.
pub mod Script
pub mod Fates
pub mod Laws
-- For private clauses alone: no public clause cites it.
pub mod Private
