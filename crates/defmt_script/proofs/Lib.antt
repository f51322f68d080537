mod Behind
pub mod Counts
mod LawfulLaws
mod ReadingLaws
mod SomeReadings
mod Settled
pub mod Stamps
mod Steadiness
mod StringSteadiness
mod StatementSteadiness
mod StepLaws
mod LineBounds
mod Steps
mod Kept
pub mod Listed
mod Texts
mod TurnLaws
