mod Running
mod Leading
mod Steps
mod Items
mod Lives
mod Gathering
mod Audits
mod Bites
