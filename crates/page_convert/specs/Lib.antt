pub mod Conversions
pub mod Asking
pub mod Blocks
