mod Marked
mod Waiting
