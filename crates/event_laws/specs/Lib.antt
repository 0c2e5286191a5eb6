pub mod Coming
pub mod Marked
