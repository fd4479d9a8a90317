pub mod Floatless
pub mod Shallow
pub mod OneLine
pub mod Found
pub mod Parts
pub mod Lacking
