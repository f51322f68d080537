pub mod Layout
pub mod Leading
pub mod Product
pub mod Shortest
