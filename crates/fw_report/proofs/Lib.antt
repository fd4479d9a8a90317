pub mod Courses
pub mod Late
pub mod OneTrace
pub mod Reasons
pub mod Traces
pub mod Floatless
