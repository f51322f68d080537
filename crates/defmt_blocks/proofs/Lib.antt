pub mod Counting
pub mod Crossing
pub mod Queue
pub mod Stretches
pub mod Telling
