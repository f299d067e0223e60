pub mod Headroom
pub mod Answers
pub mod HexDump
pub mod Example
