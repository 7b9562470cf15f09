pub mod Side
pub mod SideLaws
