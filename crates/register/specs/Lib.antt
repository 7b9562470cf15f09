-- What the contracts of `register` cite, the whole output, and that no second answer meets them.
pub mod Said
pub mod SaidLaws
pub mod Whole
pub mod SameGround
pub mod Page
pub mod Once
