pub mod Told
pub mod Shown
pub mod Making
pub mod Running
pub mod Session
