pub mod Item
pub mod Find
