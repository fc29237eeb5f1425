pub mod At
pub mod GatedTurns
pub mod Resting
