pub mod DoesLaws
pub mod Closings
pub mod Runs
pub mod Keeping
pub mod Leaving
pub mod Dues
