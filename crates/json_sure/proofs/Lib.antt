-- Laws of the definitions.
pub mod Marks
mod New
mod Notes
mod Entries
mod Saying
mod Room
mod Listing
