-- The definitions that the contracts of tokens cite.
pub mod Fronts
pub mod Tokens
pub mod View
