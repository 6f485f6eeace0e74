pub mod RowLaws
pub mod LayLaws
pub mod Forth
pub mod Kept
