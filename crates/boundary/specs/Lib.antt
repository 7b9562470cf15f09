pub mod Boundary
pub mod Sums
pub mod Closed
pub mod Keeps
pub mod Listed
pub mod ListedLaws
pub mod Changes
pub mod ChangesLaws
