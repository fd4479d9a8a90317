-- Public vocabulary: the words of public clauses, for callers and readers.
pub mod Note
pub mod Entry
pub mod View
pub mod Replay
pub mod Noted
pub mod Laws
-- For private members alone: no public clause cites it.
pub mod Remade
