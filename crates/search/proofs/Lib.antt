pub mod Comparing
pub mod Ranking
pub mod Heads
pub mod Prefixes
pub mod Positions
pub mod Halving
pub mod Finding
pub mod Named
