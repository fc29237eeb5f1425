pub mod RanEvents
mod Capacities
mod InOwnOrder
pub mod CountsTold
mod SolePuts
pub mod OnePut
mod Learned
mod Chosen
pub mod CausesFound
