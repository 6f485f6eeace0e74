-- Request 10: the numbers and bytes of one site are the same as if the other's calls had never been made.
pub mod Apart
pub mod Example
