mod Shorter
pub mod Taken
pub mod Laws
pub mod Kept
