mod Lists
mod Faults
