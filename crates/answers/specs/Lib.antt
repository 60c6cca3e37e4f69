pub mod Text
pub mod Pages
pub mod Meaning
pub mod Examples
