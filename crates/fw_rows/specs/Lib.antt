-- Public vocabulary: the words of public clauses, for callers and readers.
pub mod States
pub mod Table
pub mod Json
pub mod Failure
pub mod Noted
