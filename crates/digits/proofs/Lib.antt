pub mod Spelling
pub mod Positions
pub mod Limits
pub mod Standing
