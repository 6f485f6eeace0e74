pub mod Status
pub mod Issued
