pub mod HeaderLaws
pub mod LineLaws
pub mod SeenLaws
pub mod Theorems
