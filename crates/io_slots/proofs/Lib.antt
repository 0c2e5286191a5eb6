pub mod ChooseLemmas
pub mod CountLemmas
