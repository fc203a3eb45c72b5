pub mod Numbers
pub mod Replies
pub mod ReplyLaws
pub mod Telling
pub mod Naming
pub mod Holding
pub mod Counts
