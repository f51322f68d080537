pub mod Listed
pub mod Members
pub mod Names
pub mod Said
