pub mod Answers
pub mod Calls
pub mod Status
pub mod Version
pub mod Handing
