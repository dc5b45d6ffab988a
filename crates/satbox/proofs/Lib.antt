pub mod CallLaws
pub mod Kept
pub mod Performing
pub mod RequestLaws
