-- The definitions that the contracts of batches cite.
pub mod Intake
pub mod Batches
pub mod Laws
