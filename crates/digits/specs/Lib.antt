pub mod Reading
pub mod Standing
