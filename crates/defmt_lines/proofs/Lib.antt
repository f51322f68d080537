pub mod FormLaws
mod LineCuts
mod LineFound
mod LineAgain
pub mod LineLaws
mod FrontLaws
mod Marks
mod NumberLaws
mod Numbers
pub mod OrderLaws
pub mod SettingLaws
mod SomeKinds
mod SomeForms
mod Verdicts
mod Spaces
mod TextCuts
