pub mod Csv
pub mod Editions
pub mod Identities
pub mod Kept
