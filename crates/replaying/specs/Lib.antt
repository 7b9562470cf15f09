-- What the contracts of `replaying` cite, its laws, what replay of a page is, and that no second answer meets the contracts.
pub mod Replay
pub mod Tally
pub mod Indexing
pub mod Once
