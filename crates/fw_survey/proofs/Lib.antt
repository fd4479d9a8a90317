pub mod Questions
pub mod Rows
pub mod History
pub mod Surveys
pub mod Placing
pub mod Spelled
pub mod Carried
pub mod Rounds
