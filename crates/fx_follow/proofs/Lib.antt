mod Capacities
mod Places
mod LearnedSteps
mod Trails
mod SameEvents
mod Members
mod Blocked
mod Told
mod Found
mod UnderWay
mod FoundRuns
pub mod ShowsFrom
pub mod ToldRuns
