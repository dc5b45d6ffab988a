pub mod Telling
pub mod ReplyLaws
