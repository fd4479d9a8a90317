-- Public vocabulary: the words of public clauses, for callers and readers.
pub mod Sealing
pub mod Refusal
pub mod Laws
