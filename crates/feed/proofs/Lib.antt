pub mod Cutting
pub mod Feeding
pub mod Fitting
pub mod Only
pub mod Recording
pub mod Runs
