mod Events
mod Cutting
