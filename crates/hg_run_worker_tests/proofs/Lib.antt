pub mod Lasts
pub mod Logged
pub mod Staying
