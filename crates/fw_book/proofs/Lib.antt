pub mod Lists
pub mod Books
pub mod Openings
pub mod Spellings
pub mod Parts
pub mod Images
pub mod Walks
pub mod States
pub mod Busy
mod Noted
