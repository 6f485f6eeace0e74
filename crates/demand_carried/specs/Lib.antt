-- Demand 3's "a message carrying it", of the history of the machine.
pub mod Carried
pub mod Demand
pub mod Marked
