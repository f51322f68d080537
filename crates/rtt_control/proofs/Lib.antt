pub mod CheckLemmas
pub mod IdLemmas
pub mod PartLemmas
pub mod ReadBack
pub mod Refusals
pub mod RoundLemmas
pub mod StoredLaws
