pub mod SearchLemmas
pub mod BlockFacts
pub mod RangeLemmas
