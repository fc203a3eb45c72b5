pub mod Workers
pub mod Remotes
pub mod Pool
pub mod SlotWords
