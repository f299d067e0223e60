pub mod Only
pub mod Sequences
