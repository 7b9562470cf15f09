-- What the contracts of `index` cite, its laws, and that no second answer meets them.
pub mod Index
pub mod IndexLaws
pub mod Once
