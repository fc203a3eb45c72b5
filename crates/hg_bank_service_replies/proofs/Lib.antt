mod Rows
mod Its
mod Taken
mod Staying
mod Told
