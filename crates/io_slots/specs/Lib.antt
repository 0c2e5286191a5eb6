pub mod FreeCounts
pub mod SlotUse
