pub mod Keys
pub mod Places
pub mod Halving
pub mod Examples
