-- The laws by which the functions of `output` meet their contracts, the loop over the bytes of a read, and replies that are written whole.
pub mod SpellingLaws
pub mod Replying
pub mod Taking
pub mod Written
pub mod WrittenBy
