pub mod LookAlike
pub mod OtherFibers
pub mod FibersLookAlike
