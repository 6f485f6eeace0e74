pub mod Days
pub mod Civil
pub mod Text
pub mod Put
pub mod Read
