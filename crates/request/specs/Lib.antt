pub mod Meaning
pub mod Grammar
pub mod Examples
