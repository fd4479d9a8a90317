-- Public vocabulary: the words of public clauses, for callers and readers.
pub mod Sealed
pub mod Windows
pub mod Peers
pub mod Counts
pub mod Sealing
pub mod Calls
pub mod Histories
