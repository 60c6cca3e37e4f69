pub mod Numbers
pub mod Left
pub mod Words
pub mod Serving
pub mod Keys
pub mod Fits
pub mod Hub
pub mod FreshBucket
