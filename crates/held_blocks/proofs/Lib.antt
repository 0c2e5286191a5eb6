pub mod HeldLemmas
pub mod UnrefusedLemmas
pub mod PlaceLemmas
pub mod MappedLemmas
pub mod RefusalLemmas
pub mod OwnLemmas
