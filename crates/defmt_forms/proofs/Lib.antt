pub mod Blocks
mod Controls
mod Lines
pub mod Literals
pub mod Placed
pub mod Runs
pub mod Templates
