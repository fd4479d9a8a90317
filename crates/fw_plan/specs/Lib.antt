-- Public vocabulary: the words of public clauses, for callers and readers.
pub mod Waves
pub mod Window
pub mod Silence
pub mod Openings
pub mod Ranges
pub mod Meters
-- For private clauses alone: no public clause cites it.
pub mod Private
