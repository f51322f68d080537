pub mod Shape
pub mod Runs
pub mod Escapes
pub mod Leads
pub mod Scan
pub mod Spelling
pub mod Meaning
