pub mod Cutting
pub mod Counting
pub mod ModeLaws
pub mod Room
pub mod Next
pub mod Hearing
pub mod Fits
pub mod Turned
