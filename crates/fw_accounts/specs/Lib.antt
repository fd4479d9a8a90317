-- Public vocabulary: the words of public clauses, for callers and readers.
pub mod Accounts
pub mod Reported
pub mod Refusals
