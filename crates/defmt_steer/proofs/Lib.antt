mod Counted
mod Due
mod Hosted
pub mod SteeredSends
