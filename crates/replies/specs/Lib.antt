pub mod Replies
pub mod inner
