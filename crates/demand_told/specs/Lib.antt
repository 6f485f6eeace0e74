-- Demand 2, as theorems about the machine: one answer for each request, no alarm to a secondary, no report before the greeting is through, every message reads back.
pub mod Demand
pub mod Life
pub mod Greeted
pub mod GreetedDemand
pub mod VersionDemand
pub mod IncludedDemand
pub mod Typed
pub mod ReadDemand
