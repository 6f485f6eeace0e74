-- Demand 1, of the machine.
pub mod Demand
