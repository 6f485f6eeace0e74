pub mod Text
pub mod Plain
