pub mod PositionLaws
pub mod WalkLaws
mod HandleLaws
mod Words
