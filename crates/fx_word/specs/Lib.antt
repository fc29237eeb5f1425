pub mod StateWord
pub mod Entry
pub mod Stamps
pub mod SeatView
pub mod Rule
pub mod Steps
pub mod Words
pub mod Change
