pub mod Taken
pub mod Takes
pub mod Ending
