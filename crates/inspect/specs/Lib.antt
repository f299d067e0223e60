pub mod Answers
pub mod Header
pub mod Check
pub mod Tcp
pub mod Encoded
pub mod Options
