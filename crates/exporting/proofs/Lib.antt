pub mod Laying
pub mod Walking
pub mod Answering
pub mod Block
pub mod Back
pub mod Writing
