pub mod Said
pub mod Kept
pub mod Codes
pub mod Shared
