mod Fitted
mod Sockets
mod Keyed
mod Ending
