pub mod Choices
pub mod Lists
pub mod Texts
pub mod Ranges
pub mod Writes
pub mod Moves
pub mod Words
pub mod Examples
