-- Public vocabulary: the words of public clauses, for callers and readers.
pub mod Report
pub mod Refusal
pub mod Summary
pub mod Table
pub mod Json
pub mod Forms
pub mod Message
pub mod Reason
pub mod Course
pub mod Trace
pub mod Laws
-- For private clauses alone: no public clause cites it.
pub mod Private
