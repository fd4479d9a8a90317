-- Public vocabulary: the words of public clauses, for callers and readers.
pub mod Slot
pub mod Versions
pub mod Layout
pub mod Header
pub mod Laws
pub mod Device
pub mod Faults
pub mod Fuse
pub mod Known
pub mod Setup
pub mod Fresh
pub mod Memory
pub mod Contents
pub mod StoreBytes
pub mod Refusals
pub mod StoreLaws
pub mod Beside
pub mod Making
-- For private members alone: no public clause cites it.
pub mod Sizes
pub mod Fronts
