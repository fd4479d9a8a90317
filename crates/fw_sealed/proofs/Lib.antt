mod Lists
mod Sealed
mod Counting
mod Ports
mod Rollouts
