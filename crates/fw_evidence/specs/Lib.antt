-- Public vocabulary: the words of public clauses, for callers and readers.
pub mod Entries
pub mod Captures
pub mod Heads
pub mod Audits
pub mod Sealed
pub mod Stores
-- For private members alone: no public clause cites it.
pub mod Private
