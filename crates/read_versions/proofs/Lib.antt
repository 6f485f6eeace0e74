pub mod Numerals
pub mod Dots
pub mod Parts
pub mod Exact
pub mod Searches
