pub mod Places
pub mod Slots
pub mod Answers
pub mod Told
