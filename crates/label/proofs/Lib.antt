pub mod Padded
pub mod Stands
pub mod Reading
pub mod Text
