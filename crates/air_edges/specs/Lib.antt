-- The pace of the air, a group as it goes out, who listens, and what the edge waits for.
pub mod Pace
pub mod AirBytes
pub mod Hearers
pub mod Edge
pub mod Places
