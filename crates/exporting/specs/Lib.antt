pub mod Pcapng
pub mod Read
pub mod Export
pub mod Steps
pub mod Back
