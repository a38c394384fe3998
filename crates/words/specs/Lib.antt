pub mod Table
pub mod FieldLaws
