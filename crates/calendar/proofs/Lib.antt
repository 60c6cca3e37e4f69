pub mod Tables
pub mod Years
pub mod Months
pub mod Days
pub mod Later
pub mod Periods
