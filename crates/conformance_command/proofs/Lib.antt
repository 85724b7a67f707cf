pub mod Chain
pub mod Heard
pub mod Parts
pub mod Told
pub mod BuiltIn
pub mod Noted
