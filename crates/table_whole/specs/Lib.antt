pub mod Table
pub mod Bytes
pub mod Allowed
pub mod Memory
pub mod Reading
pub mod Reads
pub mod Lookup
