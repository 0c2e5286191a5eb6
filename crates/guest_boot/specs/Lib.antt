pub mod Placing
pub mod Areas
pub mod Worlds
pub mod Booting
pub mod Starting
pub mod Putting
