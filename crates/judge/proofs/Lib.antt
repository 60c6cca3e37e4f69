pub mod Looking
pub mod Deciding
pub mod Leaves
pub mod Naming
pub mod Adding
pub mod Sweeping
pub mod Dispatch
