-- Public vocabulary: the words of public clauses, for callers and readers.
pub mod Meaning
pub mod Answer
pub mod View
pub mod Laws
