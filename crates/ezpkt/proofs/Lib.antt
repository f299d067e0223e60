pub mod Datagram
pub mod Deciding
pub mod Sizes
pub mod Slices
pub mod Verifying
