pub mod MainFiber
pub mod Races
