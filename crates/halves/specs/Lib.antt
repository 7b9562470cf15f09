-- The two halves of a code, and their laws.
pub mod Halves
pub mod HalvesLaws
