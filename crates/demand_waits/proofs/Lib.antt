pub mod Counts
pub mod Hears
pub mod Pumps
pub mod Calls
pub mod Beside
pub mod Drained
pub mod Waits
pub mod Example
