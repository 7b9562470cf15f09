-- What the contracts of `change` cite, that a change does what processing does, and that no second answer meets them.
pub mod Change
pub mod ChangeLaws
pub mod Once
