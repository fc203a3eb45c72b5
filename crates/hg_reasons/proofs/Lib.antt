mod Ranges
mod Rows
pub mod Explaining
