pub mod Scaling
pub mod FieldsLaws
