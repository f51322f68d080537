pub mod Faults
pub mod Elf
pub mod Segments
pub mod Flaws
pub mod Ids
pub mod Dump
pub mod Checks
pub mod Answers
