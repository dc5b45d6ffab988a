pub mod Values
pub mod Pids
pub mod Arrays
pub mod Streams
pub mod Samples
