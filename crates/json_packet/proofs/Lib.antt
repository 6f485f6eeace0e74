-- Laws of the scan for names, and the theorems about packets.
mod Scans
mod Twice
mod Sures
mod Once
pub mod Whole
mod Judging
pub mod Noted
pub mod Kept
