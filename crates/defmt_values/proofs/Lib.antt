pub mod Again
mod Bits
pub mod Faults
pub mod Forms
pub mod Found
pub mod Joins
pub mod Powers
pub mod Pushes
pub mod Scans
pub mod Sounds
mod Suits
