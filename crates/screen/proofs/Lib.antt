pub mod Rights
pub mod Cases
pub mod Lines
