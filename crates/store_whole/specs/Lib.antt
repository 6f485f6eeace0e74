pub mod Image
pub mod Range
pub mod Filled
