pub mod Tests
pub mod Numbers
pub mod Lists
pub mod Places
pub mod Texts
pub mod Once
