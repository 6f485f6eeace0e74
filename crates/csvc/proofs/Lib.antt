mod Answers
mod Ends
mod Breaks
mod Whole
pub mod Kept
