pub mod Blocks
pub mod Places
