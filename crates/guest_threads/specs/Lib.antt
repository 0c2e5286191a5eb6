pub mod Dealt
pub mod Places
pub mod Progress
pub mod Seated
