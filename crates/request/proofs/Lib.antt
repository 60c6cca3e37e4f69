pub mod Actions
pub mod Ranges
pub mod Words
pub mod Pages
