pub mod Names
pub mod Json
pub mod Terminal
pub mod Tamed
pub mod Placed
pub mod Template
