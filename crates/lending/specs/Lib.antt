-- A lent account, the laws of arrays copied and of what a message or a replay leaves, and that no second answer meets the promise.
pub mod Lending
pub mod LendingLaws
pub mod Once
