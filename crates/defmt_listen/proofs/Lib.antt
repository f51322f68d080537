pub mod ByteSource
pub mod Fronts
pub mod Gathering
pub mod Hearing
pub mod Parts
pub mod Wholes
