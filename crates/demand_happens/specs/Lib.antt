-- It happens: the machine is none that refuses everything, says nothing, or only pretends to send.
pub mod Pumped
pub mod Example
pub mod Greeting
pub mod Records
