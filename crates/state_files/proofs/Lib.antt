pub mod Images
pub mod Lists
pub mod Sealed
pub mod Spelled
pub mod OneStore
pub mod OneEncoder
