pub mod Sums
pub mod Packets
pub mod Mend
pub mod Pass
pub mod Captures
