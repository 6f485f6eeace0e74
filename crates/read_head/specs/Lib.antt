pub mod Word
pub mod Values
pub mod Head
pub mod Small
pub mod Claims
