pub mod Found
pub mod SolePuts
pub mod Causes
pub mod RanEvents
pub mod CausesTold
