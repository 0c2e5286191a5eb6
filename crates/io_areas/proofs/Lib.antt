pub mod EntryLemmas
pub mod ByteLemmas
pub mod SlotLemmas
pub mod StepLemmas
pub mod UnderLockLemmas
pub mod Sent
