mod Capture
pub mod Ends
pub mod Sends
pub mod Taken
