-- Public vocabulary: the words of public clauses, for callers and readers.
pub mod Device
pub mod Refusals
pub mod Fuse
pub mod Past
pub mod Memory
pub mod Book
pub mod Begun
pub mod Making
pub mod File
pub mod Journal
pub mod Keeping
pub mod Laws
-- For private members alone: no public clause cites it.
pub mod Group
