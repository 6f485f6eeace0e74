-- Laws of the definitions, and the theorems about the grammar.
pub mod Texts
mod Runs
mod Copies
pub mod Endings
pub mod Meaning
pub mod Kept
