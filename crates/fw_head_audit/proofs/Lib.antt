mod Lists
mod Sockets
mod Carrying
mod Blocks
pub mod Shapes
mod Books
mod Meters
mod Asked
mod Claiming
mod Rows
