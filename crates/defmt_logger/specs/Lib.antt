pub mod Tape
pub mod Kept
pub mod Codes
pub mod Shared
