pub mod Parking
pub mod Named
pub mod Idle
pub mod Undone
pub mod Coming
pub mod Departing
pub mod Reaching
