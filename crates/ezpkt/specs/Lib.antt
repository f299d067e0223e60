pub mod Build
pub mod Ip4
pub mod Udp4
pub mod Icmp4
