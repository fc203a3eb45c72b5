pub mod Founds
pub mod Orders
