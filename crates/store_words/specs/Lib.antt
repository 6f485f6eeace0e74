pub mod Words
pub mod Narrow
