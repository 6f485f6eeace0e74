-- What the report of a list of entries is, and that a stream read in any pieces prints it.
pub mod Figures
pub mod Tally
pub mod Report
pub mod ReportClaims
pub mod Reading
pub mod Claims
