pub mod DisjointFacts
pub mod LiveLemmas
pub mod LookFacts
pub mod StepFacts
