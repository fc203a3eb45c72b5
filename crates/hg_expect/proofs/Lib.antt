pub mod Judging
pub mod Summaries
