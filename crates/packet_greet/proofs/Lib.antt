pub mod Answers
pub mod Beats
pub mod Judges
pub mod Kept
