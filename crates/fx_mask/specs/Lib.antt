pub mod Closing
pub mod Masks
pub mod View
