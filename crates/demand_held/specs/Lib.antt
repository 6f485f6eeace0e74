-- Demand 3, of every run of the machine.
pub mod Held
pub mod Crowded
pub mod Counted
pub mod Demand
