-- What holds of the pool after every list of acts, and of several records issued in one call.
pub mod Acts
pub mod Leaves
pub mod Promises
pub mod Crowded
pub mod View
pub mod Views
pub mod Batch
pub mod BatchLaws
pub mod Upwards
