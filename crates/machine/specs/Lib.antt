-- Document 01 as one machine. To be read in this order, beside the document; Words are the words that it is written in.
pub mod Words
pub mod State
pub mod Json
pub mod Table
pub mod Life
pub mod Answers
pub mod Items
pub mod Messages
pub mod Pool
pub mod Effects
pub mod Step
pub mod Readings
pub mod Box
pub mod Run
pub mod Example
pub mod Computed
