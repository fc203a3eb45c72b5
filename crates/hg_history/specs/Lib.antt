pub mod History
pub mod Service
pub mod OneRun
pub mod Steps
pub mod Laws
pub mod Freeing
