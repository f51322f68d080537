pub mod Appends
pub mod Digits
pub mod Escapes
pub mod Lists
pub mod Printed
pub mod Quotings
pub mod Written
