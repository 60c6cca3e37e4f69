pub mod Numbers
pub mod Bits
pub mod Fields
pub mod Lines
pub mod Keys
pub mod Printing
pub mod Examples
