pub mod PageLaws
pub mod Reverse
