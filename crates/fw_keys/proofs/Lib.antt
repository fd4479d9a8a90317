mod Fields
mod Listed
mod Plain
mod Steps
mod Readings
mod Sockets
mod Written
