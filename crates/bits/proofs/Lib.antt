pub mod Operators
pub mod Fields
pub mod Bytes
