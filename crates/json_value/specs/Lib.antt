pub mod Grammar
pub mod Reader
pub mod Answers
pub mod Means
pub mod Claims
