mod Reading
mod Opening
mod Marks
mod Logs
