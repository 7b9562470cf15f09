-- What the contracts of `book` cite, the whole output, the history of the account at its end, and that no second answer meets them.
pub mod Said
pub mod SaidLaws
pub mod Whole
pub mod Kept
pub mod Once
