pub mod Room
pub mod Accepts
pub mod Ends
pub mod Trying
