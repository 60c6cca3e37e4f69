pub mod Least
pub mod Bounds
pub mod LaidRules
pub mod Fates
pub mod Days
pub mod Judging
pub mod Examples
