-- What the machine computes.
pub mod Computed
