-- Lemmas of the proofs.
pub mod Stopping
pub mod Ending
pub mod Walks
pub mod Steps
pub mod Batching
pub mod SendingCalls
pub mod Begun
pub mod ServerEnding
pub mod Surviving
pub mod FromChain
pub mod ServerTelling
pub mod Public
