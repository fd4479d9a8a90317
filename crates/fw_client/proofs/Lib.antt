pub mod Places
pub mod Shapes
pub mod Spelled
mod Hearing
