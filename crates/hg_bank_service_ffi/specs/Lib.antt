pub mod Owning
pub mod BankParts
pub mod BankPartOpening
