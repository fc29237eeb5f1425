pub mod Occurrences
pub mod CausalOrder
