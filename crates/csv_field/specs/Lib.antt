pub mod Grammar
pub mod Marks
pub mod Split
pub mod Places
pub mod Claims
