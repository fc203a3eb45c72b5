pub mod Opened
pub mod Places
pub mod Behind
pub mod Leaving
pub mod ListsBack
pub mod Lost
