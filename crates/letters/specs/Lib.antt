pub mod Alphabet
pub mod Digits
pub mod Letters
pub mod Words
