pub mod Pools
pub mod Vacant
