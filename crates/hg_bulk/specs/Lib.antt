pub mod WordEvents
pub mod Words
pub mod OwnBlocks
pub mod Later
pub mod Freeing
