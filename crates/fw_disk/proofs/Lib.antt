pub mod Goings
pub mod Steps
mod Fillings
mod Reserving
