-- Public vocabulary: the words of public clauses, for callers and readers.
pub mod View
pub mod Checksum
pub mod Spelling
pub mod Refusal
pub mod Reading
pub mod Place
pub mod Steps
pub mod Whole
pub mod Streams
pub mod Laws
-- For private clauses alone: no public clause cites it.
pub mod Private
