pub mod Calls
pub mod Outcome
pub mod Comparisons
pub mod Decision
pub mod Steps
pub mod Printed
