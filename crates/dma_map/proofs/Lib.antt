pub mod KeptLemmas
pub mod PowerLemmas
pub mod AreaLemmas
