pub mod Trails
pub mod Followed
pub mod Places
pub mod ShowsFrom
pub mod Waiting
