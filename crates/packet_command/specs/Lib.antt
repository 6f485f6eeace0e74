pub mod Commanding
pub mod Handing
