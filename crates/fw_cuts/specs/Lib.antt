-- Public vocabulary: the words of public clauses, for callers and readers.
pub mod Both
pub mod Cuts
pub mod Rest
pub mod Write
pub mod Sectors
pub mod Change
pub mod Laws
-- For private members alone: no public clause cites it.
pub mod Private
pub mod Reading
