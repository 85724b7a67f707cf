-- The definitions that the contracts of output in its forms cite.
pub mod Forms
