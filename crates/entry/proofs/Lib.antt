pub mod FlagLaws
pub mod ValidLaws
pub mod Words
pub mod RoundTrip
