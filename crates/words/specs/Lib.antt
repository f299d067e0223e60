pub mod Examples
pub mod Steps
pub mod Words
