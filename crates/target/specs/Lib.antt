pub mod Line
pub mod Uri
pub mod Steps
pub mod Samples
