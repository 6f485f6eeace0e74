pub mod Onto
pub mod Whole
pub mod Entries
pub mod Kept
