pub mod Reading
pub mod Runnable
pub mod Stops
pub mod Causes
pub mod Asked
pub mod Files
pub mod Stopping
