-- What the contract of `entry` cites, its laws, and that no second answer meets it.
pub mod Stated
pub mod StatedLaws
pub mod Once
