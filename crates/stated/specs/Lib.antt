-- What the contract of `stated` cites, and its laws.
pub mod Stated
pub mod StatedLaws
