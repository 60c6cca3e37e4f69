pub mod State
pub mod Bytes
pub mod Meaning
pub mod Changes
pub mod Examples
