pub mod SpanLemmas
pub mod BlockLemmas
