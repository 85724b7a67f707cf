-- The definitions that the contracts of the edges of a run that goes on for days cite.
pub mod Awaited
pub mod Heard
pub mod Patience
pub mod Said
pub mod Waiting
