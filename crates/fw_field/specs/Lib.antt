-- Public vocabulary: the words of public clauses, for callers and readers.
pub mod Field
pub mod Moves
pub mod Laws
pub mod Rollouts
