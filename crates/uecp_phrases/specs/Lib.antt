-- The definitions that the contracts of phrases cite.
pub mod Phrases
pub mod Lines
pub mod Faults
pub mod Reading
pub mod Written
pub mod Laws
pub mod Expecting
pub mod Stops
pub mod Nearest
