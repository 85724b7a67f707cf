-- The definitions that the contracts of the quick program cite.
pub mod Asked
