pub mod Spans
pub mod Search
mod Lending
