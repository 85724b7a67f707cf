pub mod AirLines
pub mod Doing
