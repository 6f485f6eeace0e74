pub mod Site
pub mod Call
pub mod Parts
pub mod Records
