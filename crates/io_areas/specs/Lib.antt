pub mod Away
pub mod StandsFor
pub mod Steps
pub mod Transfers
pub mod UnderLock
pub mod Value
