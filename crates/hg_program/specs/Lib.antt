pub mod Ends
pub mod ShowEnds
pub mod EndLaws
