pub mod Closing
pub mod Intervals
pub mod Tick
pub mod Claims
