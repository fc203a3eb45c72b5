pub mod Texts
pub mod Names
pub mod GrantTable
pub mod TenantBits
pub mod RightBits
pub mod Copies
