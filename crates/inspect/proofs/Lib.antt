pub mod Numbers
pub mod Whole
pub mod Reading
pub mod Checking
pub mod Decoding
pub mod Standing
pub mod Sent
