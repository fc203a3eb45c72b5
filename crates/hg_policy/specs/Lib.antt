pub mod Refusals
pub mod Rights
pub mod TenantSets
pub mod Names
pub mod Kept
pub mod Copied
