-- What is taken, and what comes of it, on the calls, packets and messages of a history: nothing here cites the machine's own name for the rule that it states.
pub mod Taken
pub mod Commands
pub mod Closing
pub mod Beats
