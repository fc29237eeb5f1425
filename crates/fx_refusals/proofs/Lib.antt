pub mod PartedLaws
