pub mod QueryLaws
pub mod AimLaws
