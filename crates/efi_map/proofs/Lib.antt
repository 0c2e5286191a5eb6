pub mod Again
pub mod Index
pub mod Limits
pub mod Loop
pub mod Rules
pub mod Steps
