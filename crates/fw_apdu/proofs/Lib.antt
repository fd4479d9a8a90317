pub mod Heads
pub mod Tails
pub mod Requests
pub mod Responses
pub mod Wants
pub mod Written
