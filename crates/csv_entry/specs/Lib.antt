pub mod Fields
pub mod Guess
pub mod Judged
