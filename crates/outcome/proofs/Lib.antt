pub mod Deciding
pub mod Demands
pub mod Kept
pub mod Heard
pub mod Room
