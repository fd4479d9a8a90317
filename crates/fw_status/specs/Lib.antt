-- Public vocabulary: the words of public clauses, for callers and readers.
pub mod Campaigns
pub mod Rows
pub mod Page
pub mod Forms
