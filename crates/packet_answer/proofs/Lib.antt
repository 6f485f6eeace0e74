pub mod Ends
pub mod Choices
pub mod Responses
