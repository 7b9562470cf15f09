-- The places of an account, and the laws of the lowest of them.
pub mod Places
pub mod PlacesLaws
