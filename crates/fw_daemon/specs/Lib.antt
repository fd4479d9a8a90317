-- Public vocabulary: the words of public clauses, for callers and readers.
pub mod Acts
pub mod Events
pub mod Daemon
pub mod Rounds
pub mod Serving
pub mod Lists
pub mod Laws
-- For private clauses alone: no public clause cites it.
pub mod Private
