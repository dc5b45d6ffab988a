pub mod Query
pub mod Aim
pub mod Found
