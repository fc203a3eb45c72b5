pub mod Positions
pub mod Buckets
pub mod Texts
pub mod Found
pub mod Each
