mod Retained
mod Risings
mod ShownLemmas
mod Keeping
mod Found
mod Calls
mod Puts
mod Nexts
mod Settling
mod Firsts
pub mod Placed
pub mod Replacing
