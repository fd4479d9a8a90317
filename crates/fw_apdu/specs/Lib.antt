-- Public vocabulary: the words of public clauses, for callers and readers.
pub mod Cosem
pub mod Request
pub mod Response
pub mod View
pub mod Fault
pub mod Cause
pub mod Laws
-- For private clauses alone: no public clause cites it.
pub mod Private
