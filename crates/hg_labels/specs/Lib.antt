pub mod Hash
pub mod Slots
pub mod Indexes
