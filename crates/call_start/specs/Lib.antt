pub mod Fresh
pub mod Starts
pub mod Making
pub mod Begun
