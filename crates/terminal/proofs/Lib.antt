pub mod FieldLaws
pub mod QuoteLaws
