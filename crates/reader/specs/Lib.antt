pub mod Fields
pub mod Request
pub mod Heads
pub mod Samples
