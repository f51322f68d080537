pub mod Deciding
pub mod Gated
pub mod RunMade
pub mod SteeredMade
pub mod Tables
pub mod Texts
