pub mod AgreeLemmas
pub mod GatherLemmas
pub mod OrderLemmas
