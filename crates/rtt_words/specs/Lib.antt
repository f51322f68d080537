pub mod History
pub mod WordRule
pub mod Seats
pub mod Told
pub mod LookLaws
