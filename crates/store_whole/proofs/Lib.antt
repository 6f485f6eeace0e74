pub mod Spans
pub mod Back
pub mod Forth
pub mod FillLaws
pub mod ListLaws
