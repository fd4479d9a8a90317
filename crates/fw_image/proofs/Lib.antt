mod Blocks
mod Meters
mod Same
mod Fits
mod Moves
mod Judging
mod Puts
mod Openings
mod Migrating
mod Fresh
mod OneStep
pub mod Sizes
