mod Vacant
mod Seating
mod Rows
pub mod FormedLaws
