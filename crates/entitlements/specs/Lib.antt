-- The account of entitlements, its laws, and that no second answer meets a promise.
pub mod Entitlements
pub mod Active
pub mod Sound
pub mod Once
