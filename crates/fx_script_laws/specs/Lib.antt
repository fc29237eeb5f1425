pub mod Cover
pub mod Filled
pub mod Interchange
pub mod BeginsOpenly
pub mod InScripts
pub mod BlockedAlone
pub mod Reached
