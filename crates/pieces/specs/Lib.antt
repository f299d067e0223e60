pub mod Fragments
pub mod Survey
pub mod OneByOne
