-- A site of the code and a machine: the relation, and start, the readings and every call but packet.
pub mod Abstracts
pub mod Calls
pub mod Links
pub mod Start
pub mod Readings
pub mod Inputs
pub mod Tick
pub mod Messages
pub mod Pump
