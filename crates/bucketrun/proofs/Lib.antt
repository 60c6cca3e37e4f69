pub mod Lines
pub mod Cutting
pub mod Printing
pub mod Serving
pub mod Blocks
