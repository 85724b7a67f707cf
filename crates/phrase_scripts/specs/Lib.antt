-- The definitions that the contracts of phrase scripts cite.
pub mod Lines
pub mod Laws
