pub mod Items
pub mod Gather
pub mod Version
pub mod Status
pub mod Claims
