pub mod Frames
pub mod Words
