pub mod Tcp4
pub mod Sequence
