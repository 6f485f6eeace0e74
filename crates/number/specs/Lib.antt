pub mod Signed
pub mod Decimal
pub mod Reading
pub mod Alphabet
pub mod Claims
