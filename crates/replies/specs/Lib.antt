pub mod Replies
pub mod RepliesLaws
