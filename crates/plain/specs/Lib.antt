pub mod Asked
pub mod Turns
pub mod Trying
