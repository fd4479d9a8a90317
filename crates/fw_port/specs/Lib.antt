-- Public vocabulary: the words of public clauses, for callers and readers.
pub mod Acts
pub mod Lists
