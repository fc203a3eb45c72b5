pub mod Chains
pub mod Repeats
pub mod Inserts
pub mod Lists
pub mod Links
pub mod Totals
