pub mod OneByOne
pub mod Only
pub mod Putting
pub mod Surveyed
pub mod Turns
pub mod Walking
