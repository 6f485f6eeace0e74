-- The calls after start as one type and what each does; the number that is given, and that a refused call changes nothing; the invariants of a reachable
-- site, which start makes and every call keeps; and what a done call writes, over every sequence.
pub mod Numbers
pub mod Steps
pub mod Calls
pub mod Claims
pub mod Sound
pub mod SoundPlans
pub mod SoundCalls
pub mod SoundPackets
pub mod Formedness
pub mod PacketLaws
pub mod Typed
pub mod Sequences
