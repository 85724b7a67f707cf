-- The definitions that the contracts of the edges of a device cite.
pub mod Place
pub mod Screen
pub mod Lobby
pub mod Allowed
pub mod Outlet
pub mod Naming
pub mod Readings
pub mod Door
