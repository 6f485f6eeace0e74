-- What is taken, and what comes of it: the proofs.
pub mod Places
pub mod Identities
pub mod Acked
pub mod Handed
pub mod Taken
pub mod Entries
pub mod Commands
pub mod Moves
pub mod Lived
pub mod Said
pub mod Beats
pub mod Chosen
pub mod Greets
pub mod Closing
