pub mod Alarm
pub mod Issued
