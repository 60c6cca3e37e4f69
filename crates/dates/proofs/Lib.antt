pub mod Reading
pub mod Words
pub mod Pairs
pub mod Printing
pub mod RoundTrip
pub mod Years
