pub mod Slots
pub mod Table
pub mod Steps
pub mod Mixed
pub mod Next
