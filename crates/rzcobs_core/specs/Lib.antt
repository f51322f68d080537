pub mod Blocks
pub mod Canon
pub mod Encodes
pub mod Encoder
pub mod Reading
