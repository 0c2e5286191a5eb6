pub mod RunnableLemmas
pub mod InputLemmas
pub mod ScriptLemmas
pub mod RefusedLemmas
