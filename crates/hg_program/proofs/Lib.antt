pub mod EndLaws
pub mod Tested
