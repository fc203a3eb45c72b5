mod HoldersKept
mod After
mod Collected
mod Delivered
mod TakenIn
mod Abandoned
mod Refilled
mod Opened
mod Opens
mod OpenLists
mod HeapCall
mod OwnCalls
mod AllocCalls
mod Away
mod Words
mod FreedAway
mod Kept
mod Charged
pub mod Runs
mod MadeOfParts
mod Recorded
mod Handed
mod KindsTold
mod PlacesTold
mod ClassesTold
pub mod WordWrites
mod WrittenRuns
mod WordReads
