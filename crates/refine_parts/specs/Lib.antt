-- The parts of a site and of a machine: a link and a life, the pool's places and the list of held records, alarms, statuses and subscriptions.
pub mod Waits
pub mod Life
pub mod Questions
pub mod LifeActs
pub mod Record
pub mod Same
pub mod Claims
pub mod Setup
pub mod Items
pub mod ItemActs
