pub mod Position
pub mod Form
pub mod Makes
pub mod Places
pub mod Walk
pub mod Handle
