-- Public vocabulary: the words of public clauses, for callers and readers.
pub mod Value
pub mod View
pub mod Bits
pub mod Reading
pub mod Spelling
pub mod Fault
pub mod Cause
pub mod Memory
pub mod Laws
-- For private clauses alone: no public clause cites it.
pub mod Private
-- For the model of `Items` alone.
pub mod Stored
pub mod Falls
