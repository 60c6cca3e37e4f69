pub mod Program
pub mod Course
