-- What the contracts of `ffi` cite: replies in numbers, their laws, and that no second reply would do.
pub mod Replies
pub mod Replying
pub mod Once
