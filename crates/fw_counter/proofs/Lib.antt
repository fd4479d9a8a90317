mod Records
mod Keeps
mod Telling
mod Repeats
