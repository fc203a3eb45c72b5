pub mod Mentions
pub mod Texts
pub mod Endings
