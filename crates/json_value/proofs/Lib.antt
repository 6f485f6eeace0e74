-- Laws of the reader, and the theorems about the grammar.
pub mod Places
mod Words
pub mod Steps
pub mod Nesting
pub mod Sound
pub mod Shorter
pub mod Complete
pub mod Deeper
pub mod Kept
