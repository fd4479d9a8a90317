-- Public vocabulary: the words of public clauses, for callers and readers.
pub mod Order
pub mod Departures
pub mod Laws
-- For private members alone: no public clause cites it.
pub mod Private
