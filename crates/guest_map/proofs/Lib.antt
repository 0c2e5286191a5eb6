pub mod FieldLemmas
pub mod Joining
pub mod RamOf
