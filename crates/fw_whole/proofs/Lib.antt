mod Stores
mod Finding
