pub mod Fit
pub mod Counts
pub mod Faults
pub mod Races
