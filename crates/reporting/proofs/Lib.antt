pub mod Arriving
pub mod Cutting
pub mod Sorting
pub mod Filling
pub mod Turning
pub mod Totals
pub mod Mixing
