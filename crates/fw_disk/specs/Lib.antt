-- Public vocabulary: the words of public clauses, for callers and readers.
pub mod Disk
pub mod Calls
pub mod Ours
pub mod Causes
pub mod Endings
