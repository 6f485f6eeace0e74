pub mod Std
pub mod Tests
pub mod Table
pub mod Cases
pub mod Same
pub mod Both
pub mod Among
