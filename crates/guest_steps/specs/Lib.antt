pub mod Ground
pub mod Plain
pub mod Replies
pub mod Running
pub mod Seen
pub mod Standing
pub mod Steps
