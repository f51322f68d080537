pub mod Checks
pub mod Control
pub mod Ids
pub mod Layout
