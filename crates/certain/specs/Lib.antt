pub mod Csv
pub mod Certain
