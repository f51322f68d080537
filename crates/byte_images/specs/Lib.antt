pub mod Elf
pub mod Fields
pub mod First
