pub mod Calls
pub mod Closed
pub mod Audit
pub mod Samples
