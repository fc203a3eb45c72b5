mod Finds
mod Lists
mod Hinted
mod Numbered
