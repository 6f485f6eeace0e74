-- What is told and what is issued, of every run of the machine.
pub mod Tells
pub mod History
pub mod Issues
pub mod Replies
pub mod Pumps
pub mod Sends
