pub mod Spelling
pub mod SpellingLaws
pub mod Once
