-- What the contracts of `recall` cite, its laws, and that no second answer meets them.
pub mod Recall
pub mod RecallLaws
pub mod Once
