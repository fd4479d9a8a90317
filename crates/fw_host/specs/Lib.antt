-- Public vocabulary: the words of public clauses, for callers and readers.
pub mod Errors
pub mod Telling
pub mod Meters
pub mod Lists
pub mod ListCauses
pub mod Waves
pub mod Heads
pub mod Openings
pub mod Busy
pub mod Clocks
pub mod Strangers
pub mod Captures
pub mod BegunCapture
pub mod Events
pub mod Closings
pub mod Sealings
pub mod Progress
-- For private clauses alone: no public clause cites it.
pub mod Private
