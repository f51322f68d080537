pub mod Statements
pub mod Lengths
mod Texts
mod Lines
mod Words
mod States
mod Head
mod Fields
mod CallParts
mod NumberCalls
mod PairCalls
mod Calls
mod Reading
