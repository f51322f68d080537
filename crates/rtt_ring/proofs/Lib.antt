pub mod Rounds
pub mod Stores
pub mod Blocks
pub mod Kept
mod WordKeeps
