pub mod Deed
pub mod Fields
pub mod Phase
pub mod Steps
pub mod Due
pub mod Promises
