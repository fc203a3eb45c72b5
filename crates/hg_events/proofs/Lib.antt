pub mod Told
pub mod Delivered
pub mod LetGo
mod PlainLists
mod NextPlain
pub mod NextUnheld
pub mod Refilled
mod StandsAlone
mod TakenHome
mod TakesHome
mod SameListed
pub mod CoreHeaps
mod SentParted
pub mod Taking
mod SweptHeaps
pub mod Collects
pub mod SegmentSeen
pub mod ChangedAt
pub mod OwnStepped
pub mod OwnCall
pub mod OwnSteps
pub mod OwnLives
pub mod WordAt
pub mod PoolSpots
pub mod Elsewhere
mod PartedPlain
mod PartedAway
pub mod PartedInHeap
pub mod PartedInPool
