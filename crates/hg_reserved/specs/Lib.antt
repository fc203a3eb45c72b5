pub mod Shown
pub mod Overlaid
