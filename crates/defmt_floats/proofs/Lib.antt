pub mod Bounds
pub mod Enough
pub mod LimbLaws
pub mod Places
pub mod Products
pub mod TextLaws
