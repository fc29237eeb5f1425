pub mod LastFrame
