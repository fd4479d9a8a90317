pub mod Listings
mod Sublists
mod Taken
mod Makings
pub mod Tellings
mod Linkings
mod Causes
mod Starts
