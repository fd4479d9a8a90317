mod Made
mod Responding
mod OneAnswer
mod Stops
mod Faultless
mod Calling
mod Cutting
mod Telling
mod Restarts
pub mod Sizes
