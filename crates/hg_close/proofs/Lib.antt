mod Founds
mod First
mod Underway
mod Quiet
mod Ready
mod Moving
mod Filled
