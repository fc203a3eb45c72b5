pub mod Apart
pub mod ReplyLemmas
