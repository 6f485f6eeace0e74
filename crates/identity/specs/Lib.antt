pub mod Hex
pub mod Text
pub mod Version
pub mod Read
