-- What the contracts of the library for C cite, and those of joining.
pub mod Frames
pub mod Findings
pub mod Elements
pub mod Names
pub mod Characters
pub mod Joining
