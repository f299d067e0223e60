pub mod Examples
pub mod Reading
pub mod Texts
