pub mod Order
pub mod Runs
pub mod Places
pub mod Totals
pub mod Sound
pub mod Writing
