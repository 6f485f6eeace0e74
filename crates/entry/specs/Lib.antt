pub mod Flags
pub mod Layout
pub mod Valid
pub mod Reading
