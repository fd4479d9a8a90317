-- Public vocabulary: the words of public clauses, for callers and readers.
pub mod Verdicts
pub mod Cells
pub mod Json
pub mod Inventories
