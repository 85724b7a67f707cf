-- The definitions that the contracts of titles cite.
pub mod Nearest
pub mod Fitting
pub mod Cut
pub mod Titles
pub mod Strings
pub mod Parts
pub mod Lines
