-- What is read of a packet, by the code and by the machine: head, needs and reasons, the lists of statuses and commands, Version and its three checks.
pub mod Verdicts
pub mod Head
pub mod Fields
pub mod Ignored
pub mod Reasons
pub mod Claims
pub mod Statuses
pub mod Commands
pub mod Versions
