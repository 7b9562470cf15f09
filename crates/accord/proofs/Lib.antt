-- That the journal of message lines, replayed, gives the account of sending them.
pub mod Accord
