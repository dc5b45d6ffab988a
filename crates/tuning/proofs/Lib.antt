pub mod Pieces
pub mod Frequencies
pub mod Words
