-- What is shared by the proofs of a device.
mod Ending
mod Kept
mod Stretches
pub mod AirEnding
pub mod AirStatuses
