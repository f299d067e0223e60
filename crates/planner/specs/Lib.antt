pub mod Plan
pub mod Cutting
pub mod Steps
pub mod Answers
pub mod Planning
