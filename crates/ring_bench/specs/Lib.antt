pub mod Frames
pub mod Plan
