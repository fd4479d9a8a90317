mod Linked
mod Made
mod Refused
