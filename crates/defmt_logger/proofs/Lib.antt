pub mod Append
mod Next
pub mod Room
