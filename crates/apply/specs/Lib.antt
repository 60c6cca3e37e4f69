pub mod Passes
pub mod Applied
