pub mod Ends
pub mod InPlace
pub mod Lists
