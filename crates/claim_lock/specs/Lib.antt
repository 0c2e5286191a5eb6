pub mod Knows
pub mod Rule
pub mod Seen
pub mod Lent
pub mod Tallied
