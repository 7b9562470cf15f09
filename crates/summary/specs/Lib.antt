-- What the contracts of `summary` cite, its laws, that no second answer meets them, and a summary that is computed.
pub mod Summary
pub mod SummaryLaws
pub mod Once
pub mod Examples
