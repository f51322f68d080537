pub mod Leaves
pub mod Meaning
pub mod Named
pub mod Names
pub mod Printed
pub mod Reading
pub mod Spelling
pub mod Quick
