-- Public vocabulary: the words of public clauses, for callers and readers.
pub mod Kept
pub mod Head
pub mod Refusals
pub mod Laws
-- For private clauses alone: no public clause cites it.
pub mod Private
