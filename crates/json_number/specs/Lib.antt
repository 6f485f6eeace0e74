pub mod Number
pub mod Machine
pub mod Claims
