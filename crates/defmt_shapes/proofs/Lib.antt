pub mod RunLaws
pub mod NumberLaws
pub mod NameLaws
pub mod EscapeLaws
mod CharacterLaws
mod QuoteLaws
pub mod LeadForms
pub mod LeadAgain
pub mod LeadFound
mod FloatLaws
pub mod FullLeads
mod BeginLaws
pub mod ShapeLaws
pub mod ScanLaws
mod LeaveLaws
mod AngleLaws
pub mod ReaderLaws
mod OneLead
pub mod OneLaws
pub mod FlatLaws
pub mod ValueLaws
pub mod SomeLaws
pub mod OrderLaws
pub mod MeaningLaws
pub mod BareLaws
pub mod QuickHeads
pub mod QuickQuotes
pub mod LastCalls
pub mod FlagLaws
pub mod DecimalLaws
