pub mod Names
pub mod Once
pub mod Scan
pub mod Packet
pub mod Notes
pub mod Claims
