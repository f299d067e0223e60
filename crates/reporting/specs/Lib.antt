pub mod Sides
pub mod Packets
pub mod Report
pub mod Totals
pub mod Mixing
