pub mod AreaLemmas
