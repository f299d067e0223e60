pub mod Pcap
pub mod Answers
pub mod Read
pub mod Runs
