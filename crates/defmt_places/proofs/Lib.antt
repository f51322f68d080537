pub mod Lines
pub mod InSlots
pub mod Told
