-- Public vocabulary: the words of public clauses, for callers and readers.
pub mod Field
pub mod Aes
pub mod Gcm
pub mod Laws
-- What the private clauses say.
pub mod Schedule
pub mod Entries
pub mod Multiples
