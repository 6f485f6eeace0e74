-- What a host of the exported functions sees is what the machine says: the proofs.
pub mod Boxed
pub mod Closed
pub mod Told
pub mod Fitting
pub mod Handed
pub mod Lawful
pub mod Asked
pub mod Equation
pub mod Calls
