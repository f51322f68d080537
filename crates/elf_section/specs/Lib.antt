pub mod Bytes
pub mod File
pub mod Checks
pub mod Symbol
pub mod Listed
pub mod Table
pub mod Written
