-- What a host of the exported functions sees is what the machine says.
pub mod Seen
pub mod Allows
pub mod Equation
