-- What is beside a site is not looked at while the pool is not full.
pub mod Natural
pub mod Issue
pub mod Apart
pub mod Example
