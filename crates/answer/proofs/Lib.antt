pub mod Reasons
pub mod Fits
