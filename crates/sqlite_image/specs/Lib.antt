pub mod Fault
pub mod Files
pub mod Keeper
pub mod Kept
pub mod Log
pub mod Names
pub mod Paths
pub mod Place
