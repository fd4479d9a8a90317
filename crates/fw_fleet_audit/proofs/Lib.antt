mod Lists
mod Switching
mod Passing
mod Departing
mod Biting
mod Headline
