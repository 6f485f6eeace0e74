pub mod Plainness
pub mod Messages
pub mod Twice
pub mod Back
pub mod Sizes
pub mod Spelled
pub mod Kept
