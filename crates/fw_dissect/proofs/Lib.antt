pub mod Plaining
pub mod Worded
pub mod Taken
pub mod Flow
