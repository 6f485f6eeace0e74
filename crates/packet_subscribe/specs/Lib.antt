pub mod Subscribing
pub mod InPlace
pub mod Claims
