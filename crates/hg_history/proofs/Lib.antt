pub mod Views
pub mod Logs
pub mod Seats
pub mod OneRunLemmas
pub mod FreeingLemmas
