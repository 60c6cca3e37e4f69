pub mod Places
pub mod Totals
pub mod Ready
pub mod Examples
