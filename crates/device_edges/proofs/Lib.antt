-- The lemmas of the edges of a device.
pub mod AllowLists
pub mod Asking
pub mod FirstBytes
pub mod Lobbies
pub mod Namings
pub mod Readings
pub mod Screens
