-- Public vocabulary: the words of public clauses, for callers and readers.
pub mod Fleet
pub mod Runs
pub mod Laws
