pub mod Accounting
pub mod Dealing
pub mod Numbering
pub mod Ordered
pub mod Recorded
pub mod Refusing
pub mod Rising
pub mod Unlike
