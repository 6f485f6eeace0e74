pub mod Pump
pub mod Claims
