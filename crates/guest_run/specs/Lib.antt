pub mod Booted
pub mod Room
pub mod Boots
pub mod Starting
pub mod Stopping
pub mod Ran
pub mod Ends
pub mod Did
