pub mod Put
pub mod Laws
