pub mod Draws
pub mod Frontends
