-- The definitions of a device that tells what it does.
pub mod EventLines
pub mod ConnectionLines
pub mod Logging
pub mod DeviceRun
pub mod Laws
pub mod AirLines
pub mod AirParts
pub mod AirRun
