-- The definitions that the contracts of options out of a file cite.
pub mod Words
pub mod Entries
pub mod Places
