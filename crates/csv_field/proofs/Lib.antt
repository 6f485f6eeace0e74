mod Marks
mod Runs
mod Fields
pub mod Lines
pub mod Meaning
pub mod Kept
