-- The definitions that the contracts of what is said on standard error cite.
pub mod Told
