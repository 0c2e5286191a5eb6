pub mod Putting
pub mod Printings
