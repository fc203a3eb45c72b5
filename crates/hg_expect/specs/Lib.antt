pub mod Words
pub mod Findings
pub mod Judging
pub mod Tests
pub mod Endings
