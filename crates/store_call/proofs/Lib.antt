pub mod IssuedLaws
pub mod CallLaws
