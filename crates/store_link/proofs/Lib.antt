pub mod RowLaws
pub mod Ids
pub mod Asked
