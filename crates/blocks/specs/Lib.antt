pub mod Blocks
pub mod Places
pub mod Examples
