-- Public vocabulary: the words of public clauses, for callers and readers.
pub mod Fates
pub mod Rounds
pub mod Queues
pub mod Schedules
pub mod Ticks
pub mod Laws
pub mod Logs
pub mod Events
pub mod Links
pub mod Order
pub mod Audits
pub mod Private
pub mod Parts
