pub mod Event
pub mod Gap
pub mod Hearing
pub mod Refusal
pub mod Sent
pub mod Shown
