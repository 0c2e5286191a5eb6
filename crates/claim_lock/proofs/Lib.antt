pub mod Lists
pub mod Found
pub mod Steps
pub mod Passes
