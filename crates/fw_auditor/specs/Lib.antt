-- Public vocabulary: the words of public clauses, for callers and readers.
pub mod Errors
pub mod Keyed
pub mod Fitting
-- For private members alone: no public clause cites it.
pub mod Private
