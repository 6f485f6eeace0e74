-- Laws of lists and of the definitions, and the theorems about the grammar.
pub mod Lists
mod Ranges
pub mod Laws
pub mod Sound
pub mod Complete
pub mod Encoding
pub mod Kept
