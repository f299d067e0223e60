pub mod Example
pub mod Output
