pub mod Back
pub mod Search
pub mod Change
pub mod Same
pub mod Slots
pub mod Laws
