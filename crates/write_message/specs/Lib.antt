pub mod Message
pub mod Listing
pub mod Pieces
pub mod Claims
