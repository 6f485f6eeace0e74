pub mod Copies
pub mod Places
pub mod Leaves
pub mod Found
pub mod Kept
