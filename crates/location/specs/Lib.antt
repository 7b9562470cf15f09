pub mod Location
pub mod LocationLaws
