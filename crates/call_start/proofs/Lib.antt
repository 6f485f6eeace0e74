pub mod Values
pub mod Whole
pub mod BegunLaws
pub mod Again
