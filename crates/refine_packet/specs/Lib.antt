-- What a packet comes to, by the code and by the machine.
pub mod Lookups
pub mod Answered
pub mod Taken
pub mod Refused
pub mod Greeted
pub mod Ordered
pub mod Statuses
pub mod Commands
pub mod Heard
pub mod Packet
