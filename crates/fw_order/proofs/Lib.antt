mod Lists
mod Orders
mod Sending
mod Steps
mod Sticking
mod Biting
