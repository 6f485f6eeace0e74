pub mod Fill
pub mod Lowered
pub mod Hex
pub mod Text
pub mod Read
