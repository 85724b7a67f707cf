-- The definitions that the contracts of lines of JSON cite.
pub mod Elements
pub mod Findings
pub mod Meanings
pub mod Steps
pub mod Stores
