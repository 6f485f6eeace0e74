pub mod Times
pub mod Number
pub mod Given
pub mod Order
