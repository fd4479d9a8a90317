-- Public vocabulary: the words of public clauses, for callers and readers.
pub mod Reserved
pub mod Told
pub mod Moves
pub mod Counters
pub mod Refusals
pub mod Laws
