pub mod Lines
pub mod Uris
