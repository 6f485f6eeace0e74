pub mod Aggregated
pub mod Issued
