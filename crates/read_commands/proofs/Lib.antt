mod Pushes
mod Once
mod Counts
pub mod Kept
