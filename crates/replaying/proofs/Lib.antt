pub mod ReplayLaws
pub mod Whole
