pub mod Sure
pub mod Judges
pub mod Lists
