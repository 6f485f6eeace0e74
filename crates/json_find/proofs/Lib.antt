-- Laws of the loops over entries, and the theorems about what they find.
pub mod Walks
mod Steps
mod Noted
pub mod Once
pub mod Meaning
