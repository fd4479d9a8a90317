-- Public vocabulary: the words of public clauses, for callers and readers.
pub mod Acts
pub mod Timing
pub mod Leading
pub mod Counting
pub mod Contacts
pub mod Laps
pub mod Daemon
pub mod Plans
pub mod Legs
pub mod Rollout
pub mod Laws
pub mod Early
pub mod Lists
pub mod Stopping
-- For private clauses alone: no public clause cites it.
pub mod Link
pub mod Schedule
pub mod Listing
