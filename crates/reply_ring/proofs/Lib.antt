pub mod Kept
pub mod Entries
pub mod Keeping
pub mod Public
