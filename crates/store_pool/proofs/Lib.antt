pub mod PlaceLaws
pub mod PoolLaws
