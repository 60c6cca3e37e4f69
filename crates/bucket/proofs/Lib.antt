pub mod Steps
pub mod Ordering
pub mod Following
pub mod Laying
pub mod Whole
pub mod Passing
