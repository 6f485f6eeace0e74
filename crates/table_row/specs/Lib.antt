pub mod Head
pub mod Rows
