pub mod FieldLaws
pub mod RequestLaws
