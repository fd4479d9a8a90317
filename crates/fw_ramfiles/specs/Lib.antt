-- Public vocabulary: the words of public clauses, for callers and readers.
pub mod Past
pub mod Memory
-- What the laws of the files rest on.
pub mod PastLaws
