-- Laws of the machine, and the theorems about the grammar.
mod Complete
pub mod Sound
mod Steps
pub mod Kept
