-- The history of an account, the theorem of it, and one that is computed.
pub mod History
pub mod Examples
