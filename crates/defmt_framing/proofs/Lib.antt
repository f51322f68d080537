pub mod Cutting
pub mod Telling
pub mod Between
pub mod Truncating
pub mod Standing
pub mod FrameCodes
pub mod Decides
pub mod Agree
pub mod InFrames
mod Near
mod Whole
