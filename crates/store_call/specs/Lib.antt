-- What a call in place gives, and the records that it issues.
pub mod Called
pub mod Issued
