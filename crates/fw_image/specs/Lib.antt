-- Public vocabulary: the words of public clauses, for callers and readers.
pub mod Status
pub mod Meter
pub mod Shown
pub mod Step
pub mod Fits
pub mod Calls
pub mod State
pub mod Stored
pub mod Fresh
pub mod Phases
pub mod Laws
-- For private members alone: no public clause cites it.
pub mod Moves
