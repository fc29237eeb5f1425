pub mod Counted
pub mod SoFar
pub mod KeepsOrder
