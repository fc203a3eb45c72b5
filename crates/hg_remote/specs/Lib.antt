pub mod Remote
pub mod Sends
pub mod Order
pub mod RemoteLaws
pub mod Kept
