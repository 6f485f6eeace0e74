pub mod Laws
pub mod Ready
pub mod Plans
pub mod Due
pub mod Kept
