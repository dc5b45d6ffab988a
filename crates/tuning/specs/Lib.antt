pub mod Values
pub mod Found
pub mod Samples
