-- What the contract of `room` cites, its laws, and that no second answer meets it.
pub mod Room
pub mod RoomLaws
