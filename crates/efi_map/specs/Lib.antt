pub mod MapFile
pub mod Spelling
pub mod Starts
