pub mod Decoding
pub mod Entries
pub mod Encoding
pub mod Checking
pub mod Storing
pub mod Back
pub mod RoundTrip
