pub mod Reading
pub mod Pairs
pub mod Printing
pub mod Examples
