pub mod Elements
pub mod Stores
pub mod Joined
