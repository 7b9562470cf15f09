-- What the contracts of `recording` cite, its laws, the whole page, and that no second answer meets them.
pub mod Recorded
pub mod RecordedLaws
pub mod Whole
pub mod Once
