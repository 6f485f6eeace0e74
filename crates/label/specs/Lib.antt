pub mod Padded
pub mod Label
pub mod Reading
