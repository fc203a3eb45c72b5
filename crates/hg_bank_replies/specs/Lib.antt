pub mod Blocks
pub mod Replies
pub mod Serving
pub mod Asking
pub mod AtOnce
pub mod ReplyLaws
