pub mod Frames
pub mod Sites
