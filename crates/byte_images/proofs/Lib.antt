pub mod FieldLaws
pub mod FirstLaws
