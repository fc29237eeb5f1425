pub mod WithoutTurns
pub mod ToldBySchedule
