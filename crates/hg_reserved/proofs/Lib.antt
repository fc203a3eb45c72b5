pub mod ShownLemmas
pub mod OverlaidLemmas
