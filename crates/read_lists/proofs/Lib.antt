pub mod Walk
mod Once
pub mod Listed
pub mod Worst
mod Seconds
pub mod Counts
pub mod Kept
mod Pushes
