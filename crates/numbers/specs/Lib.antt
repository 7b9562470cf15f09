-- What the contracts of `numbers` cite, the laws of it, the number of a message, and the loop over the numbers of a line.
pub mod Numbers
pub mod NumbersLaws
pub mod MessageLaws
pub mod Counting
