pub mod Digits
pub mod LineLemmas
pub mod WordLemmas
