pub mod Escapes
pub mod Reading
pub mod Tags
pub mod WellFormedTexts
