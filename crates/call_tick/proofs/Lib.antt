pub mod Masks
pub mod Records
pub mod Judged
pub mod Closed
pub mod InPlace
