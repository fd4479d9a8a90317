-- Public vocabulary: the words of public clauses, for callers and readers.
pub mod Whole
pub mod Laws
