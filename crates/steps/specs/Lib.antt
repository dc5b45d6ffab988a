pub mod Steps
pub mod Sights
pub mod Replies
pub mod Handed
pub mod Tests
