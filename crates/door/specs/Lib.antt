pub mod Turns
pub mod Version
