pub mod Keys
pub mod Near
pub mod PolicyNames
pub mod Reasons
pub mod Spots
pub mod Hints
pub mod TraceWords
pub mod TraceHints
