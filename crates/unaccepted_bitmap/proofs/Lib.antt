pub mod TableFacts
pub mod BitLemmas
pub mod RunLemmas
pub mod GuardLemmas
pub mod StubLemmas
pub mod TableLemmas
pub mod CutLemmas
pub mod FitLemmas
