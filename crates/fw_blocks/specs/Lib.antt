-- Public vocabulary: the words of public clauses, for callers and readers.
pub mod Cuts
pub mod Members
pub mod Runs
pub mod Width
pub mod Laws
-- For the models of `BlockSet`, `Pages` and `Window` alone: no public clause cites it.
pub mod Private
