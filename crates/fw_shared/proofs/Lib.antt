pub mod Dealing
pub mod Noted
pub mod Rows
