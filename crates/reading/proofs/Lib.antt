pub mod Numbers
pub mod Starts
pub mod Broken
pub mod Stepping
pub mod Only
pub mod Ending
