pub mod Scripts
pub mod RequestedLate
