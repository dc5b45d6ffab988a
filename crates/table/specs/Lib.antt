pub mod Table
pub mod Reach
pub mod Formed
pub mod Made
pub mod Samples
