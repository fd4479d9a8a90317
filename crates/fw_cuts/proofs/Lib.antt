pub mod Goings
pub mod Splices
mod Leavings
mod Laying
mod Found
mod Cutting
mod Resting
mod Pieces
mod Writing
mod Spellings
mod Mending
mod OneSector
