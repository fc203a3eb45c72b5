mod RemoteBy
mod Delayed
mod Sent
mod Drained
pub mod Kept
mod Calls
mod DrainLaws
pub mod OrderLemmas
