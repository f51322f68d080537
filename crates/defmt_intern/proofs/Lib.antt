pub mod BodyLaws
pub mod EntriesLaws
pub mod NameLaws
pub mod PieceLaws
mod FaultLaws
pub mod Slots
pub mod Stamps
pub mod TableLaws
