-- A stream read in any pieces prints the report of its entries: the proofs.
pub mod Integers
pub mod Folds
pub mod Ranks
pub mod Lines
pub mod Room
pub mod Groups
pub mod Steps
pub mod ReportKept
pub mod Kept
