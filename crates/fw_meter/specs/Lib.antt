-- Public vocabulary: the words of public clauses, for callers and readers.
pub mod Step
pub mod Stopping
pub mod Handling
pub mod Laws
-- For private clauses and the model of `MeterCore` alone: no public clause cites it.
pub mod Private
