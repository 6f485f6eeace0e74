pub mod Entries
pub mod Orders
pub mod HandedWords
pub mod Every
