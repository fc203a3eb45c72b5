pub mod Handles
pub mod Values
pub mod Lent
pub mod LentBanks
pub mod Waiting
