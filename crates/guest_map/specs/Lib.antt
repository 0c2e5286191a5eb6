pub mod Fields
pub mod Ram
