pub mod Code
pub mod WritingLaws
pub mod FieldsLaws
pub mod ReadingLaws
pub mod Reverse
pub mod Once
