pub mod Writing
pub mod Flat
pub mod Passes
pub mod Removing
pub mod Marking
pub mod Whole
pub mod Applying
pub mod Sweeping
