pub mod Cause
pub mod Stream
pub mod Reading
pub mod Sayable
pub mod Writing
pub mod Answers
pub mod Speech
pub mod Codes
