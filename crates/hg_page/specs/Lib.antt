pub mod Shapes
pub mod PageLists
pub mod Links
pub mod Others
pub mod Blocks
