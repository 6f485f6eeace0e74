-- Request 13: how long a record can wait.
pub mod Waits
pub mod Example
