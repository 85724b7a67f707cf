-- What the proofs of batches use.
pub mod Growing
pub mod Seeing
pub mod Keeping
pub mod Public
