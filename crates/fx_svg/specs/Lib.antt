pub mod Names
pub mod Escaped
pub mod Content
pub mod WellFormed
