pub mod Cutting
pub mod Feed
pub mod Runs
pub mod Steps
