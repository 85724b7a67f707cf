pub mod Opened
pub mod Left
pub mod FirstItem
pub mod Counters
