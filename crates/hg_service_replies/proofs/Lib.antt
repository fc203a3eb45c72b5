mod Staying
pub mod LetLeave
pub mod Its
pub mod Taken
mod WordRuns
