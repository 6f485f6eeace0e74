pub mod Kinds
pub mod Entries
pub mod Lookup
pub mod Index
pub mod Four
