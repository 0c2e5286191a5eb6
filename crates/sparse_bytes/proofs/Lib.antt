mod FillLemmas
mod RunLemmas
