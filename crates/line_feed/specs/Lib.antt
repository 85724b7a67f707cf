-- The definitions that the contracts of lines as they come cite.
pub mod Lines
pub mod Reading
pub mod Laws
pub mod Parts
