-- Public vocabulary: the words of public clauses, for callers and readers.
pub mod Records
pub mod Recording
pub mod Laws
