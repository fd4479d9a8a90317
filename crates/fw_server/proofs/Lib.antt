pub mod Pairs
pub mod Packing
pub mod Sizes
pub mod OnlyName
pub mod OnlyIdentifier
pub mod RequestRefusals
