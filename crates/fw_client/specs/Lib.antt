-- Public vocabulary: the words of public clauses, for callers and readers.
pub mod Claim
pub mod Ask
pub mod View
pub mod State
pub mod Matching
pub mod Hearing
pub mod Laws
-- For private clauses and the model of `Outstanding` alone: no public clause cites it.
pub mod Private
