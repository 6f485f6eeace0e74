pub mod RowLaws
pub mod SiteLaws
pub mod HeadLaws
pub mod PastLaws
pub mod TurnsLaws
