pub mod Down
pub mod Part
pub mod Fixed
