-- Public vocabulary: the words of public clauses, for callers and readers.
pub mod Phase
pub mod Reason
pub mod Row
pub mod Head
pub mod Parts
pub mod Laws
-- For private clauses and the models of the head end's types alone: no other public clause cites it.
pub mod Private
