pub mod Served
pub mod Configured
