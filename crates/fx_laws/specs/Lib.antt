pub mod Names
pub mod Everywhere
pub mod ScopedPlaces
pub mod Others
pub mod WithoutTurns
