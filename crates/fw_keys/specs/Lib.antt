-- Public vocabulary: the words of public clauses, for callers and readers.
pub mod Titles
pub mod Links
pub mod KeyFiles
pub mod Refusals
pub mod Making
pub mod Writing
pub mod Laws
-- For private clauses alone: no public clause cites it.
pub mod Private
