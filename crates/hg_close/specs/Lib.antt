pub mod Rooms
pub mod Moved
pub mod Closed
