pub mod Writing
pub mod Wrote
