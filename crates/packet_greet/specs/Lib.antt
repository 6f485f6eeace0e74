pub mod Answered
pub mod Version
pub mod Watchdog
pub mod Claims
