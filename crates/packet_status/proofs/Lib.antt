pub mod Entries
pub mod Asked
