pub mod Pieces
pub mod Laying
pub mod Held
pub mod Changes
pub mod Steps
pub mod Reading
