pub mod Changes
pub mod Asked
