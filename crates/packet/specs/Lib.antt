pub mod Headroom
pub mod Dump
pub mod Answers
