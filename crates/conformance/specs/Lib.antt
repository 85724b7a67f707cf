-- The definitions that the contracts of conformance cases cite.
pub mod Cases
pub mod Judging
pub mod Lines
pub mod Noise
pub mod Sending
