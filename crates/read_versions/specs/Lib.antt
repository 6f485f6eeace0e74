pub mod Numeral
pub mod Version
pub mod Dot
pub mod Judge
