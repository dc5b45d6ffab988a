pub mod Closing
pub mod Does
pub mod Stamps
pub mod DueAt
