pub mod Grammar
pub mod Run
pub mod Decoded
pub mod Ends
pub mod Copied
pub mod Claims
