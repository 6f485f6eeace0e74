pub mod Utf8
pub mod Grammar
pub mod Char
pub mod Encoded
pub mod Claims
