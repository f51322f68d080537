pub mod Carried
pub mod Forms
pub mod Inside
pub mod Passed
pub mod Plans
pub mod Readers
pub mod Steps
pub mod Told
