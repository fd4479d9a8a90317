-- Public vocabulary: the words of public clauses, for callers and readers.
pub mod Beginnings
pub mod Deals
pub mod Ends
pub mod Private
pub mod Recorded
pub mod Refusals
pub mod Seated
pub mod Wires
