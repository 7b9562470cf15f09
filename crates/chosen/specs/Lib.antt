pub mod Chosen
pub mod InExtents
