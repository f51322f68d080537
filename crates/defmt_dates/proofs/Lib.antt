pub mod AsciiLaws
pub mod MonthLaws
pub mod TextLaws
pub mod YearLaws
