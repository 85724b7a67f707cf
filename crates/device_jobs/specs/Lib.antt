-- The definitions that the contracts of the command `encoder` as a device cite.
pub mod Limits
pub mod Serving
pub mod Kept
pub mod Connections
pub mod OverTcp
pub mod AirServing
pub mod AirOverTcp
