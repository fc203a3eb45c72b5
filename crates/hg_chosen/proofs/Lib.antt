pub mod Searches
pub mod HeapTold
pub mod HeapLists
pub mod ChoiceTold
pub mod Filters
pub mod Numbered
pub mod HeldSame
mod PoppedLists
mod AllocPage
mod AllocLists
pub mod Allots
pub mod ListedSwaps
pub mod CoreQueues
pub mod Same
pub mod Parted
pub mod CameHome
pub mod Freed
pub mod Drained
pub mod Comes
pub mod TakenLists
pub mod NothingSent
pub mod Taken
pub mod Refusals
pub mod MovedLists
pub mod Leaving
pub mod Entering
pub mod Emptied
pub mod Sending
