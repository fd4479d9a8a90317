-- Public vocabulary: the words of public clauses, for callers and readers.
pub mod Events
pub mod Metrics
pub mod Told
pub mod Laws
