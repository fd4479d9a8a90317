-- Public vocabulary: the words of public clauses, for callers and readers.
pub mod World
pub mod Step
pub mod State
pub mod Setup
pub mod Refusals
pub mod View
pub mod Headline
pub mod Runs
pub mod Parts
pub mod Done
pub mod Laws
-- For private clauses and models alone: no public clause cites it.
pub mod Private
pub mod Lends
