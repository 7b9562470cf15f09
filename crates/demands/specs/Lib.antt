-- The mission's demands 2 and 3 and document 02's request 2 as statements, and the starred cases.
pub mod Coded
pub mod Tails
pub mod Ground
pub mod Starred
