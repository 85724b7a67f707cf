-- The definitions that the contracts of lines of JSON cite.
pub mod Objects
pub mod Texts
pub mod Stamps
pub mod Laws
