-- Public vocabulary: the words of public clauses, for callers and readers.
pub mod Lines
pub mod Captures
pub mod Streams
-- For private clauses alone: no public clause cites it.
pub mod Private
