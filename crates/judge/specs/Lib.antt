pub mod State
pub mod Meaning
pub mod Named
pub mod Premises
