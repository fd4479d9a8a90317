pub mod Floatless
pub mod Told
