pub mod Sign
pub mod RoundTrip
pub mod Digits
pub mod Places
pub mod Reading
pub mod Alphabet
pub mod Examples
pub mod Kept
