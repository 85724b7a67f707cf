-- The definitions that the contracts of running conformance cases cite.
pub mod Choosing
pub mod Conformance
pub mod Dialling
pub mod Running
pub mod Place
pub mod Telling
pub mod OverTcp
