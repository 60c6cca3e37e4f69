pub mod Tests
pub mod Choices
pub mod Lists
pub mod Writes
pub mod Moves
pub mod Words
pub mod Parts
