pub mod Lists
pub mod Backed
pub mod Sent
pub mod Goes
pub mod Demand
pub mod Marks
pub mod Marked
