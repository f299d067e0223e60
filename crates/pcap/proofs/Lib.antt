pub mod Answers
pub mod Pcap
pub mod Read
pub mod Runs
