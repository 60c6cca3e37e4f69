pub mod Writing
pub mod ReadBack
pub mod Pages
