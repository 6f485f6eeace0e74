pub mod Pick
pub mod Text
pub mod Lists
