pub mod Frames
pub mod Sites
pub mod Spot
pub mod Stamps
