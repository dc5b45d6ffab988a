pub mod Reading
pub mod Unfolding
