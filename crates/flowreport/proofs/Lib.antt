pub mod Packets
pub mod Gathering
