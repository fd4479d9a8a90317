-- Public vocabulary: the words of public clauses, for callers and readers.
pub mod Links
pub mod Ports
pub mod Moves
pub mod Counting
pub mod Laws
pub mod Rollouts
