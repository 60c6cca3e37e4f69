pub mod Layout
pub mod Changes
pub mod Places
pub mod Searching
pub mod Contents
pub mod Moves
pub mod Examples
