pub mod Append
pub mod Next
pub mod Room
pub mod Shown
pub mod Sizes
pub mod Spoken
