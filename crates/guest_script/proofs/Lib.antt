pub mod NumberLemmas
pub mod LineLemmas
pub mod NameLemmas
pub mod ScriptLemmas
pub mod ReadableLemmas
pub mod OrderLemmas
pub mod PrintedOrderLemmas
