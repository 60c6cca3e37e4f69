pub mod Ready
pub mod Carrying
pub mod Configuring
pub mod Serving
pub mod Counting
