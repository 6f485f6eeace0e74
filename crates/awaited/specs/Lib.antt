pub mod Lists
pub mod Slot
pub mod Awaited
pub mod Promises
