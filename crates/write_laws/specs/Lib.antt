pub mod Formed
pub mod Fields
pub mod Size
pub mod Spelled
pub mod Claims
