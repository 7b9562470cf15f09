-- Which messages a journal records.
pub mod Accord
