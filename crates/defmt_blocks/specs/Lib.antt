pub mod Beside
pub mod Blocks
pub mod Queue
