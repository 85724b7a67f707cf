-- The definitions that the contracts of a bad line cite: of its rules, of a stream cut into segments, of connections.
pub mod Rules
pub mod Fates
pub mod Delays
pub mod Parts
pub mod Files
pub mod Pieces
pub mod Crossing
pub mod Laws
pub mod Passages
pub mod Ends
pub mod Connections
pub mod Effects
