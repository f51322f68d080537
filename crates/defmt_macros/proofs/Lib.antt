mod Alike
mod Lengths
pub mod Messages
mod Places
